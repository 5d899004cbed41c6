-- What only private functions speak of: no public clause cites it.
pub mod Extends
pub mod FromTokens
pub mod Kept
pub mod Kinds
pub mod Modes
pub mod Nodes
pub mod Places
pub mod SpotTable
