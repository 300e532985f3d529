pub mod Coming
pub mod OneText
pub mod Verdicts
pub mod Reading
pub mod YesRead
pub mod Lexemes
pub mod Beginning
pub mod Accepting
