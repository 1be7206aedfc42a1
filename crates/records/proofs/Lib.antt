pub mod Formats
pub mod Fronts
pub mod Reach
pub mod Runs
