-- The laws about specs/. What the promises mean, for a reader, is in Determined (one outcome for each promise) and RuledOut (wrong
-- programs). A caller of `fill_tables` reads the tables by the laws of Parts: `v_itself_entry`, `u_back_entry`, `v_back_entry`,
-- `u_against_entry` and `length-with_tables`. The others serve the proofs of src/.
pub mod Determined
pub mod RuledOut
pub mod Letters
pub mod Scans
pub mod Walks
pub mod Filled
pub mod Fills
pub mod Parts
pub mod PartFills
