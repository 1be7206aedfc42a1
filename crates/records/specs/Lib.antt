pub mod Record
pub mod Places
pub mod Format
