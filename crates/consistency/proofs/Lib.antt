pub mod ClashQueries
pub mod Meeting
pub mod Matches
pub mod MarkBits
pub mod PairMerge
