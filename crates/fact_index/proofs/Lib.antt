pub mod Orders
pub mod SortedRuns
pub mod PredicateTests
pub mod OneFact
