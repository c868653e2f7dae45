pub mod BodyByBody
pub mod Acceptance
pub mod Finding
pub mod Examples
