pub mod Awaited
pub mod Chaining
pub mod Hearing
pub mod Standing
