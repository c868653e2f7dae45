pub mod Kinds
pub mod Contents
pub mod Parts
pub mod Taken
pub mod Read
pub mod Begun
pub mod Held
pub mod Files
