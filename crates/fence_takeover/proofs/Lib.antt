pub mod Starts
pub mod Taken
pub mod Answered
mod Asked
