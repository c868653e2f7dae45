pub mod Numerals
pub mod Room
pub mod Examples
