pub mod Slips
pub mod Outs
pub mod Readiness
pub mod Backs
pub mod Finishing
