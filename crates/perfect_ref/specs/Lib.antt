pub mod Rules
pub mod Plain
pub mod Found
pub mod Laws
pub mod Counting
