-- The definitions and the laws, lowest first.
pub mod Readings
pub mod Laws
