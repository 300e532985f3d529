pub mod Derived
pub mod Above
pub mod Lists
pub mod Implied
pub mod Sight
pub mod Laws
