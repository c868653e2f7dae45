pub mod Examples
pub mod JobByJob
