-- What the contracts of src/ cite. In the order of reading:
--   Letters   the letters that are lent, and pieces of them
--   Looks     a look, and a scan made of looks                        document 01, "What counts as a comparison"
--   Walks     a table, its place in the work space, and its filling   "What counts as a comparison"
--   Parts     the four tables of a part in the work space             "The four tables of a part"
--   Promises  the whole outcome of each public function               "How the text is cut", "The four tables of a part"
-- and for the functions that make a part of a walk:
--   Progress  how far a walk has come
pub mod Letters
pub mod Looks
pub mod Walks
pub mod Parts
pub mod Promises
pub mod Progress
