pub mod Benches
pub mod Tracks
