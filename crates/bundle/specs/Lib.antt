pub mod Decoded
pub mod View
pub mod Sections
pub mod Owners
pub mod Agreement
