pub mod Over
pub mod Plain
