pub mod Written
pub mod Said
pub mod ModelLines
pub mod Cursor
pub mod Answers
pub mod Gathering
pub mod Tokens
pub mod Laws
