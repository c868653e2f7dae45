pub mod Tags
pub mod Meaning
pub mod Tagged
pub mod Laws
pub mod TagsLemmas
