pub mod Goals
pub mod Writable
pub mod Replies
pub mod Reaching
pub mod Telling
