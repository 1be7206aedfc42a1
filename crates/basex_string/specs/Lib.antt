pub mod Strings
pub mod Scan
pub mod Answers
pub mod Unescaping
pub mod inner
