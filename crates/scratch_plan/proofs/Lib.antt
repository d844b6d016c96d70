pub mod Stages
pub mod Installed
pub mod Frames
pub mod Blends
pub mod Slackness
pub mod Entries
pub mod Causes
pub mod Stills
