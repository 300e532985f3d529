-- The definitions, lowest first.
pub mod Certificates
pub mod Laws
pub mod Explained
