pub mod Estimates
pub mod Leading
