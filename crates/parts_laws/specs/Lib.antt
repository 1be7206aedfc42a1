pub mod Filled
pub mod PartDue
pub mod Rejoined
pub mod ThroughBytes
