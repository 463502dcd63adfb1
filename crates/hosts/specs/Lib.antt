pub mod Values
pub mod Meaning
pub mod Answers
pub mod Laws
pub mod Reasons
