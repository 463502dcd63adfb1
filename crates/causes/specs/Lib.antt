pub mod Causes
pub mod Tally
