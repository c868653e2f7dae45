pub mod Told
pub mod Entries
pub mod Filled
pub mod Laws
pub mod Code
