-- The definitions, lowest first.
pub mod Streams
pub mod Standing
