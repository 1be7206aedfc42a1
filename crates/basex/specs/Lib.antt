pub mod Kinds
pub mod Request
pub mod Response
pub mod Texts
