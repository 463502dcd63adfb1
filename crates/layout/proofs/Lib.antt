pub mod Listed
pub mod EachBelow
pub mod Found
pub mod CountBelow
