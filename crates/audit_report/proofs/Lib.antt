pub mod Pieces
pub mod Rows
pub mod Replies
pub mod OneFinding
pub mod OneText
