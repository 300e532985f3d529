pub mod Sayings
pub mod Views
pub mod Adding
pub mod Answers
pub mod Texts
pub mod Spelling
pub mod Laws
