pub mod Completion
pub mod RunByRun
