mod Marks
mod Terms
mod Lengths
mod Items
pub mod Documents
