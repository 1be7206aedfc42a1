pub mod Places
pub mod Puts
pub mod Scan
pub mod Texts
