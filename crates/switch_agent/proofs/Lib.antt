pub mod Carrying
pub mod Chains
pub mod Pieces
pub mod Rooms
pub mod Stops
