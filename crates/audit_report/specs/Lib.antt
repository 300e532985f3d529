-- The definitions, lowest first.
pub mod Lines
pub mod Rows
pub mod Outcome
pub mod Report
pub mod Ends
pub mod Auditing
pub mod Props
pub mod Laws
