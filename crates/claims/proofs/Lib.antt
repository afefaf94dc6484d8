pub mod Found
pub mod Cuts
pub mod Pigeons
pub mod Clashes
pub mod Verdicts
pub mod Bounding
pub mod Firsts
