pub mod Marks
pub mod Sharings
pub mod Beginnings
pub mod Steppings
pub mod Schedules
