-- The definitions, lowest first.
pub mod Outcome
pub mod Answers
pub mod Source
pub mod Report
pub mod Explaining
pub mod Ends
pub mod Laws
