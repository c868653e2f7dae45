pub mod Fault
pub mod Data
pub mod Faultless
pub mod Track
pub mod Laws
