-- Definitions for private functions only: no public clause cites them.
pub mod Standard
pub mod Turns
pub mod Applicator
pub mod KeywordsLeft
pub mod Standing
pub mod Starting
pub mod Terms
pub mod Holding
pub mod Asked
pub mod Cursors
pub mod Applied
pub mod NamesLeft
pub mod ListLeft
pub mod Leaves
pub mod Recorded
pub mod Patterns
