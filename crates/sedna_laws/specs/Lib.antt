pub mod Due
pub mod Pieces
pub mod Unwritten
