pub mod Standing
pub mod Paths
pub mod Entries
pub mod Search
