pub mod Shapes
pub mod Opening
pub mod Refusals
