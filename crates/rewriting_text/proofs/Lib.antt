mod SortedTexts
mod LeafLists
mod Gathering
pub mod OneText
