pub mod Step
pub mod Tables
pub mod Kept
pub mod Widening
