mod Pieces
mod Plain
mod RowTexts
mod Verbatim
mod ObjectTexts
mod EventTexts
mod Examples
pub mod Arrangements
