pub mod Containments
pub mod Ends
