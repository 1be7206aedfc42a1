pub mod Given
pub mod Judgement
pub mod Puts
