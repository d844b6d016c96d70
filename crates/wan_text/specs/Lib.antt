pub mod Added
pub mod Names
pub mod Named
pub mod Peaks
