-- What the promises mean, for a reader, is in Demands (the three demands), Determined (one outcome for each promise) and RuledOut
-- (wrong programs). The others are the laws by which src/ is proved, from the leaves up.
pub mod Demands
pub mod Determined
pub mod RuledOut
pub mod Puts
pub mod Written
pub mod Reaches
pub mod Classes
pub mod WorkBlocks
pub mod TableBlocks
pub mod PartFinds
pub mod Finds
pub mod Clearing
pub mod Searches
pub mod Depths
pub mod Places
pub mod Refusals
pub mod Entries
