pub mod Substitution
pub mod Bindings
pub mod Table
pub mod Normal
pub mod Reach
pub mod Laws
pub mod Core
