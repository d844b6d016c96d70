pub mod Choices
pub mod Enough
pub mod Counted
