pub mod RowByRow
pub mod Enough
pub mod Benches
pub mod Tracks
pub mod Locks
pub mod TrackRows
pub mod Links
