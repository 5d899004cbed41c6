-- The text of relative rows.
pub mod Gathering
pub mod ListedRows
pub mod ListedUnits
pub mod OpeningKept
pub mod QuotedParts
pub mod RelativeTexts
pub mod SilentNodes
