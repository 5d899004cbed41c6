pub mod Ending
pub mod LastSlash
pub mod Putting
pub mod Reading
pub mod Taking
