-- The definitions and the laws, lowest first.
pub mod Models
pub mod Laws
pub mod Containment
pub mod Entailment
