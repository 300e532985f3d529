-- The definitions, lowest first.
pub mod Marks
pub mod Texts
pub mod Mixing
pub mod Laws
