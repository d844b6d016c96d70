pub mod Ranks
pub mod Boxed
pub mod Finding
