pub mod Grammar
pub mod Plain
pub mod Words
pub mod Found
pub mod Files
pub mod Answer
pub mod Status
pub mod code
