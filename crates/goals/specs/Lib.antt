pub mod Goals
pub mod Detecting
pub mod Distinguishing
pub mod Joining
pub mod Naming
pub mod Excusing
-- theorems, on which the law of the impls rests
pub mod Laws
pub mod Pairs
