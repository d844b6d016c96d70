pub mod Turning
pub mod Levels
pub mod Levelling
pub mod Turns
pub mod Undoing
pub mod Passing
