pub mod Floors
pub mod Fences
pub mod Older
pub mod Taking
pub mod Waits
pub mod Ends
