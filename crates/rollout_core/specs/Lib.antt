pub mod Adding
pub mod InFlight
pub mod Worlds
