pub mod Book
pub mod Held
