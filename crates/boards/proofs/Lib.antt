-- what stands on the outputs
pub mod Masks
-- records and files
pub mod Fields
pub mod Packing
pub mod Passing
pub mod Grown
pub mod Filed
pub mod Accepted
pub mod Recorded
pub mod Exact
