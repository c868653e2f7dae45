pub mod Jobs
pub mod Sheets
pub mod Example
