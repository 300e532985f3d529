-- Lemmas, lowest first.
pub mod Numbers
pub mod TakingTurns
