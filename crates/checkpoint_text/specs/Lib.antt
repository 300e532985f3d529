pub mod Sources
pub mod Numbers
pub mod Suspended
pub mod Text
pub mod Laws
