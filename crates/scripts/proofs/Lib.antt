pub mod Reading
pub mod Masking
pub mod Asking
pub mod Adding
