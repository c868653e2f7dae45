pub mod Words
pub mod Places
pub mod Lengths
pub mod Growth
pub mod Acceptance
