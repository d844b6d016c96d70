pub mod Following
pub mod Counted
pub mod Flying
pub mod HeldPairs
pub mod Schedules
