pub mod Passing
pub mod Pushing
