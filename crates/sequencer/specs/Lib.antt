pub mod Table
pub mod State
pub mod Questions
