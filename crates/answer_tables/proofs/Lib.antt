mod Runs
mod UnitRuns
mod Aligning
mod Masks
mod Bytes
mod Codings
mod Numbers
mod Views
mod Renamings
mod Combinations
mod Constants
mod Deciders
mod Patches
mod Ranks
mod Counting
mod Substitutions
mod Spreads
pub mod Widening
mod Orders
mod Marking
mod Parts
mod TupleRows
mod Two
mod Listing
mod LinkLists
mod Rows
pub mod Few
pub mod CountedRuns
