pub mod Names
pub mod Numbers
pub mod Outcome
pub mod Outputs
pub mod Stop
pub mod Upgraded
pub mod Words
pub mod code
