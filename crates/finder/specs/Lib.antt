-- What the contracts of src/ cite. In the order of reading:
--   Replies    document 01's number and values of each reply      document 01, "What comes back"
--   Promises   the whole outcome of each entry                    "What comes back"
-- and for the functions below the entries:
--   Kept       report and tally, and what putting a block does
--   Reading    a part's blocks as they are read from its tables   "The four tables of a part"
--   Finding    the parts, one after the other                     "How the text is cut"
--   Searching  a whole text                                       "What comes back"
--   Places     letters that are the same at two places
pub mod Replies
pub mod Promises
pub mod Kept
pub mod Reading
pub mod Finding
pub mod Searching
pub mod Places
