pub mod Fetching
pub mod Answering
