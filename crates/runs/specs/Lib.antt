pub mod Promise
pub mod Hands
