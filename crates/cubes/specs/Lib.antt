pub mod Masks
pub mod Cubes
pub mod Searching
pub mod Blocks
