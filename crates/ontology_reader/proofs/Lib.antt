pub mod WordsRead
pub mod Declared
pub mod Declarable
pub mod LinesAdded
pub mod RoundTrips
pub mod WordsWritten
