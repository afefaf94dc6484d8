pub mod Numerals
pub mod Cubing
pub mod Words
pub mod Lines
pub mod Telling
pub mod Scripts
pub mod Kinds
