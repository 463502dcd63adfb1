pub mod Answer
pub mod Escape
pub mod Hex
