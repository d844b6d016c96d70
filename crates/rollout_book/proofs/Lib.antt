pub mod Short
pub mod Turned
pub mod Openings
pub mod Filling
pub mod Sendings
pub mod Rounded
pub mod Owners
pub mod Verdicts
