pub mod Wholes
pub mod Booleans
pub mod Doubles
pub mod Values
pub mod inner
