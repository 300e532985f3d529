pub mod Gained
pub mod Indexed
pub mod Answering
pub mod Collected
pub mod Reached
pub mod Counting
