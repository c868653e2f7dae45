pub mod Refusals
pub mod Steps
pub mod Bytes
pub mod States
