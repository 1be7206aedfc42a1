pub mod Cut
pub mod Part
