pub mod Entries
pub mod Cells
pub mod Lines
pub mod Greatest
pub mod Between
pub mod Pushes
pub mod Needs
pub mod Told
