pub mod Refusals
pub mod Statements
pub mod StatementViews
pub mod VocabularyViews
pub mod Reading
pub mod Standing
pub mod Laws
