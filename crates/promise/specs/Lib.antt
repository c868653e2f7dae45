pub mod Calls
pub mod Readings
pub mod States
pub mod Promise
