-- What only private functions speak of: no public clause cites it.
pub mod Seen
