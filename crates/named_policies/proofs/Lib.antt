pub mod Boxes
pub mod Frozen
