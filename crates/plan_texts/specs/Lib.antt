pub mod Loads
pub mod Rows
pub mod Needs
pub mod Explain
pub mod Told
pub mod LookedUp
