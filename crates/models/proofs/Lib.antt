-- The lemmas' files, lowest first.
pub mod Holding
pub mod IntoModels
pub mod Having
pub mod AlongMaps
pub mod FairRuns
pub mod Canonical
pub mod Freezing
pub mod AllModels
pub mod Entailed
