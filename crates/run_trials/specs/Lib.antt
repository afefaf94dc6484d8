pub mod Hundred
