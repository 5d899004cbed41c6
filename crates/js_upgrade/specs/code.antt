-- What only private functions speak of: no public clause cites it.
pub mod Back
pub mod Clear
pub mod Copied
pub mod CopiedTarget
pub mod FaultBelow
pub mod First
pub mod HasSeen
pub mod Initials
pub mod Local
pub mod Onward
pub mod Placed
pub mod Pushed
pub mod ReferenceFree
pub mod Table
pub mod Usual
pub mod UsualRoot
pub mod UsualUri
