pub mod Suspending
pub mod Telling
pub mod Resuming
pub mod Laws
