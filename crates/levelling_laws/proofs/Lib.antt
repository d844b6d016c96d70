pub mod Shared
pub mod Drained
