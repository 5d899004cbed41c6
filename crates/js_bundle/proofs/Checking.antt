-- The two passes: what is refused, and what follows where nothing is.
pub mod CheckStops
pub mod PassNext
pub mod LastPlace
pub mod AssertionRules
pub mod Depth
pub mod PatternNext
pub mod ReferenceTexts
pub mod OneName
pub mod TargetsFound
pub mod MembersByName
pub mod DocumentsAdded
pub mod NoReference
pub mod StoppedScan
