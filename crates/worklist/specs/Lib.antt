pub mod Reach
pub mod Parts
pub mod Lists
