pub mod Passed
pub mod BenchBodies
pub mod TrackBodies
