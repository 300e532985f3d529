pub mod Lines
pub mod OwnSets
pub mod Progress
pub mod Rules
pub mod Slots
pub mod Verdict
