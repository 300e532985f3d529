mod Lexing
mod TableLemmas
pub mod IriLemmas
mod PrefixLemmas
