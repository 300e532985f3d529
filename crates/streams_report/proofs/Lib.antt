-- Lemmas, lowest first.
pub mod Events
pub mod Entering
pub mod Going
pub mod OneTurn
pub mod Counting
pub mod Telling
pub mod Closing
pub mod Taking
