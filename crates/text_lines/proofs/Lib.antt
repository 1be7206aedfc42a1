pub mod Again
pub mod Digits
pub mod Fronts
pub mod Pairs
pub mod Parts
pub mod Sames
pub mod Texts
pub mod Words
