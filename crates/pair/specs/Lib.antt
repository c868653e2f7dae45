pub mod Meaning
pub mod Pair
pub mod Laws
pub mod Moves
pub mod Parts
pub mod Fits
pub mod Lists
pub mod Reverses
