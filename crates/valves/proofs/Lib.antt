pub mod Chains
pub mod Rows
pub mod Steps
pub mod Pushed
pub mod Parts
