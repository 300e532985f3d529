pub mod Ends
pub mod Jobs
pub mod Running
pub mod Laws
