pub mod Codes
pub mod Sessions
pub mod inner
