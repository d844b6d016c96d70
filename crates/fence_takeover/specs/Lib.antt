pub mod Asked
pub mod Beginnings
pub mod Ends
pub mod Starts
pub mod Fences
