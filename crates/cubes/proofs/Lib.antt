pub mod Bits
pub mod Alike
pub mod Searches
pub mod Words
pub mod Walks
pub mod Filling
