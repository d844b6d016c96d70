pub mod Noting
pub mod Fronting
pub mod Sorting
pub mod Waiting
