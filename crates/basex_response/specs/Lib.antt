pub mod Items
pub mod Reading
pub mod Writing
pub mod Errors
pub mod inner
