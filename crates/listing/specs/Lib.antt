-- Output is what a reader must believe, and Promises the whole outcome of `put_output`. Parts is what the contracts of src/ say
-- besides.
pub mod Output
pub mod Promises
pub mod Parts
