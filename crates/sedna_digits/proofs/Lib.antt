pub mod Kept
pub mod Numbers
pub mod Runs
pub mod TwoDigits
pub mod Walks
pub mod Powers
