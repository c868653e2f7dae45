pub mod Laws
pub mod Fields
pub mod Chunks
