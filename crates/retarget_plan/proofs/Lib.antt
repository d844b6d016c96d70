pub mod Divisors
pub mod Sizes
pub mod Goings
pub mod OldSides
pub mod Beginnings
pub mod Sheds
pub mod Looked
pub mod Found
pub mod Copied
pub mod Leavings
mod Aimings
mod AimedSheds
pub mod Holdings
