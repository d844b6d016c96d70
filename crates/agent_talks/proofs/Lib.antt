pub mod Chains
pub mod Pieces
pub mod Plain
pub mod Stops
