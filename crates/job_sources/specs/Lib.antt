pub mod FileNames
pub mod Opening
pub mod OntologyForms
pub mod Sayings
pub mod Sources
pub mod Ends
