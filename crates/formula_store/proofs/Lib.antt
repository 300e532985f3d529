pub mod Antichains
pub mod Remembered
pub mod Lists
