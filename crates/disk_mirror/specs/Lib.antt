pub mod Images
pub mod Mirrors
pub mod Openings
pub mod Past
pub mod Pending
