pub mod Meaning
pub mod Laws
pub mod Refusals
pub mod Follow
pub mod Options
