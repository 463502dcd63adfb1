pub mod Program
pub mod Kinds
pub mod Allowed
pub mod Seen
