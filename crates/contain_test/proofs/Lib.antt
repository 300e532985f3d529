-- The lemmas' files, lowest first.
pub mod Normal
pub mod Distinct
pub mod Bindings
pub mod Rows
pub mod Counting
pub mod Showing
