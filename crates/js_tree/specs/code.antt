-- Definitions for private functions only: no public clause cites them.
pub mod Compacting
pub mod Differing
pub mod Gathering
pub mod KeptBetween
pub mod Listing
pub mod Nesting
pub mod Opening
pub mod Order
pub mod PartOrder
pub mod Put
pub mod PutTrees
pub mod Reductions
pub mod RelativeText
pub mod Search
pub mod Strings
