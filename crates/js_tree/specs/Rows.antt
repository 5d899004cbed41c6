-- A result as relative rows.
pub mod Holding
pub mod Locations
pub mod Marks
pub mod Relative
pub mod RelativeState
