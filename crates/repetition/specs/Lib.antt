-- What document 01 says is right, as definitions that compute. In the order of reading:
--   Numbers      small words: tests, sums and counts over lists of numbers
--   Repetition   what a repetition is                                         "The finder and its neighbours"
--   Cutting      cut, parts, where a repetition belongs, right and left       "How the text is cut"
--   Blocks       the blocks of a part by trying every start, and the list     "How the text is cut"
--   Tables       match lengths and the four tables                            "The four tables of a part"
--   Comparisons  the counting rule                                            "What counts as a comparison"
--   Limits       the limits, the depth of a length, the room for a list       "Sizes"
--   Memory       report and work space afterwards                             "Sizes", "What comes back"
--   Outcomes     reply number and values of each question                     "What comes back"
--   Examples     the starred examples, one table                              "Examples"
-- What else has to be believed stands with the functions that promise it:
--   finder/specs/Replies        number and values of each of the finder's replies
--   finder/specs/Promises       the whole outcome of each entry
--   porthwynna/specs/Answers    what is handed back to a C caller
--   porthwynna/specs/Promises   the whole outcome of each exported function
--   listing/specs/Output        what the listing program prints
--   listing/specs/Promises      the buffer that it prints from
-- Nothing else has. Here that is
--   Reading      the blocks of a part as they are read from the tables        "The four tables of a part"
-- and of the other crates all other definitions: laws tie them to these.
pub mod Numbers
pub mod Repetition
pub mod Cutting
pub mod Blocks
pub mod Tables
pub mod Comparisons
pub mod Limits
pub mod Memory
pub mod Outcomes
pub mod Examples
pub mod Reading
