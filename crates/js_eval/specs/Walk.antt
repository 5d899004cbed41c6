pub mod Keeping
pub mod DynamicScope
pub mod Said
pub mod Progress
pub mod Visited
pub mod Steps
pub mod Ended
pub mod Reported
