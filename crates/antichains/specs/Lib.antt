pub mod Sets
pub mod Family
pub mod Antichain
pub mod Families
pub mod Minimal
pub mod Laws
