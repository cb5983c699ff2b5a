-- What the promises mean, for a reader, is in Determined (one outcome for each promise), RuledOut (wrong programs) and
-- Meaning (how "none" is said). The others are the laws by which src/ is proved.
pub mod Determined
pub mod RuledOut
pub mod Meaning
pub mod Answers
pub mod Calls
