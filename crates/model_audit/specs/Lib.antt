-- The definitions, lowest first.
pub mod FiniteModels
pub mod Clashes
pub mod First
pub mod Examining
pub mod Rows
pub mod Auditing
pub mod Laws
