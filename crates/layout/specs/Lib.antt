pub mod Bounded
pub mod Layout
