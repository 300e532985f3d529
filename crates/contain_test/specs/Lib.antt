-- The definitions, lowest first.
pub mod Binding
pub mod Rewritings
pub mod Deciding
pub mod Contained
