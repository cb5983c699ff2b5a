-- What the contracts of src/ cite. In the order of reading:
--   Answers    what is handed back to a C caller for a reply
--   Version    the version as one number
--   Promises   the whole outcome of each exported function
pub mod Answers
pub mod Version
pub mod Promises
