-- The definitions, lowest first.
pub mod Lines
pub mod Stages
pub mod Outcome
pub mod Report
pub mod Certificates
pub mod Ends
pub mod Verifying
pub mod Props
pub mod Laws
