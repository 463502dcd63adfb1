pub mod HeaderBounds
pub mod Tallies
pub mod Firsts
pub mod Search
