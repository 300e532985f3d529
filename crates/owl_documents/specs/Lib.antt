pub mod Terms
pub mod Views
pub mod Items
pub mod ItemViews
pub mod Documents
pub mod DocumentViews
