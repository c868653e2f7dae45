pub mod Scanning
pub mod Chaining
pub mod Marking
pub mod Turns
pub mod Walking
pub mod Blanks
pub mod Answering
