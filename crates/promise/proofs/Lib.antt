pub mod Best
pub mod Tags
pub mod Since
pub mod Hand
pub mod Plans
pub mod Refused
pub mod Runs
pub mod Promise
