pub mod Families
pub mod Antichains
pub mod Minimal
pub mod Few
