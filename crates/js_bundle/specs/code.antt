-- What only private functions speak of: no public clause cites it.
pub mod PlaceNumbers
pub mod Scan
pub mod Index
pub mod Edges
pub mod StoredLocation
pub mod TextPrefix
pub mod Positions
pub mod PartsByPlace
pub mod SparseList
pub mod Identity
pub mod Leads
pub mod CheckedSite
pub mod Patterns
pub mod PlaceBelow
