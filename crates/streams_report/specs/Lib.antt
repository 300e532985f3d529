-- The definitions, lowest first.
pub mod Report
pub mod Streaming
pub mod Laws
pub mod Opening
pub mod Ends
