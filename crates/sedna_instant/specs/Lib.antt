pub mod Calendar
pub mod DateTimes
pub mod Orders
pub mod inner
