pub mod Elements
pub mod Distinct
pub mod Filters
pub mod Maps
pub mod Positions
pub mod Rising
pub mod Zipped
