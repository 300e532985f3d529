pub mod Asking
pub mod Least
pub mod Prepared
pub mod Matching
pub mod Marking
pub mod Marked
pub mod Pairs
