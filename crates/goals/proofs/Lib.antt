pub mod Orders
pub mod Walks
pub mod Parted
pub mod Onces
pub mod Wanting
