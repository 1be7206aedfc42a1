pub mod Answers
pub mod Calls
pub mod Cuttings
pub mod Joining
pub mod Offered
pub mod Refusals
pub mod Roles
