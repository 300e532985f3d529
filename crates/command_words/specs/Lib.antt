pub mod Numbers
pub mod Commands
pub mod Meanings
pub mod Canonical
pub mod Laws
