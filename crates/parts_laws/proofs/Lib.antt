pub mod Bodies
pub mod Cuts
pub mod Filled
pub mod Joins
pub mod PartDue
pub mod Parts
pub mod ThroughBytes
