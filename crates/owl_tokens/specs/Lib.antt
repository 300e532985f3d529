pub mod Tokens
pub mod Tables
pub mod Iris
pub mod IriViews
pub mod Words
