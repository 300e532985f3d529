pub mod Draws
pub mod Ontology
pub mod Snapshots
