pub mod Steps
mod Texts
mod Limits
