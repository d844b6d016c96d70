pub mod Units
pub mod Left
pub mod Standing
pub mod Leaving
pub mod Copies
pub mod Shedding
pub mod Targets
pub mod Aiming
