pub mod Batches
pub mod Disks
pub mod Images
pub mod Opened
pub mod Renewals
pub mod States
pub mod Stored
