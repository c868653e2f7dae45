pub mod Lowest
pub mod Fetched
pub mod Planned
