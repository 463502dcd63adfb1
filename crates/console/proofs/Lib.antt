pub mod Lines
pub mod Printable
