pub mod Unguided
pub mod Laws
