pub mod Good
pub mod Target
pub mod Waiting
pub mod Batches
pub mod Kept
pub mod SafeWorlds
