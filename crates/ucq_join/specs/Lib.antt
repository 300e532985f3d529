pub mod Bindings
pub mod Answers
pub mod Gathered
pub mod Partial
pub mod Split
pub mod Asked
pub mod Alike
