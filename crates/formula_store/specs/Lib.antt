pub mod Interned
pub mod Memo
pub mod Laws
