pub mod Runs
pub mod Storing
