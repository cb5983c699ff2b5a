-- What the promise means, for a reader, is in Determined (it has one outcome) and Examples (document 01's output for `aaaa`). The
-- others are the laws by which src/ is proved, from the leaves up.
pub mod Determined
pub mod Examples
pub mod Decimals
pub mod Lines
pub mod Puts
pub mod Outputs
