pub mod Rows
pub mod BenchRule
pub mod TrackRule
pub mod TrackRows
