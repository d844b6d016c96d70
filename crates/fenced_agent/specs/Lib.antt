pub mod Frames
pub mod Agents
pub mod Worked
