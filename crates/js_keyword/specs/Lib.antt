pub mod AssertionKeyword
pub mod Keyword
