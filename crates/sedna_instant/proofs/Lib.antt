pub mod Fractions
pub mod Days
pub mod Seconds
pub mod Readings
pub mod Clocks
