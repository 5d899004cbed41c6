-- The tables by which places are found.
pub mod PlaceNext
pub mod FirstFound
pub mod FoundByText
pub mod IndexFinds
pub mod PositionsNext
pub mod SharedTokens
pub mod TokensWritten
pub mod EdgesNext
pub mod SparseLists
pub mod PartsOfPlaces
pub mod KeywordsOfPlace
pub mod ResourceTableMade
pub mod ResourceNumbers
pub mod NoKeyword
