pub mod Claims
pub mod Bounds
