pub mod Reading
pub mod Unreached
pub mod Verdict
pub mod Empty
pub mod OneCause
