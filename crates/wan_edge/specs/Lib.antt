pub mod FailingTurns
pub mod Fleets
pub mod Frames
pub mod Memory
pub mod Ports
pub mod ReadAll
pub mod Streams
pub mod Switches
