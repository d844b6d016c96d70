pub mod Saying
pub mod Policies
