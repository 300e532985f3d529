mod LeafQueries
mod PairTexts
mod OnePairs
mod ShortNames
