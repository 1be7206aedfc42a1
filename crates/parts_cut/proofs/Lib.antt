pub mod Elements
pub mod Pieces
pub mod Cuts
pub mod Answers
pub mod Counts
pub mod Joined
