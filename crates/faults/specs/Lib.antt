pub mod Told
pub mod Shown
