-- The lemmas' files, lowest first.
pub mod Lookups
pub mod Sides
pub mod Lists
pub mod Joining
pub mod Equalities
pub mod Modelling
pub mod Findings
pub mod Selecting
pub mod Leaves
pub mod Certain
