-- The lemmas' files, lowest first.
pub mod Monotony
pub mod InModels
pub mod Changes
