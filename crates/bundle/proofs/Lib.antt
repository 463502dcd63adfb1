pub mod Kept
pub mod Filling
pub mod Owning
pub mod Agreeing
pub mod Fetching
pub mod Reading
