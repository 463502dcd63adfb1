pub mod Taking
pub mod Empty
