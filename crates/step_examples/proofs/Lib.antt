mod LeafLists
mod PlainLeaves
mod PlainRows
mod Agreeing
