pub mod Represents
pub mod Searches
