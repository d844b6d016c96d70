pub mod Terms
pub mod Takeovers
pub mod Worked
