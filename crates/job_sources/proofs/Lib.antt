mod LongTexts
mod Texts
mod SourceTexts
pub mod OneSetting
pub mod Staying
