pub mod Apart
pub mod Lifting
pub mod Crossings
