-- The laws about specs/. The table of laws is in src/lib.rt.
pub mod Lists
pub mod Repetitions
pub mod Cutting
pub mod Matching
pub mod Walking
pub mod Agreement
pub mod Reading
pub mod Listing
pub mod Depth
pub mod Bounds
pub mod Longest
pub mod Reports
pub mod Examples
