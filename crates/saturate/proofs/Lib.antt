pub mod DerivedRuns
pub mod Absorbing
pub mod Arrows
pub mod Implications
pub mod ListedAbove
pub mod FactImplied
pub mod Kept
pub mod Sighted
