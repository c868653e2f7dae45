pub mod BodyBytes
pub mod FileBytes
