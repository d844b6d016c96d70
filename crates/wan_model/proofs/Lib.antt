pub mod Positions
pub mod Numbers
pub mod Pushes
pub mod Growing
pub mod Routes
pub mod Lookups
pub mod Fronts
pub mod Rated
pub mod Copied
pub mod Building
pub mod BuildingTunnels
pub mod Kept
pub mod Counted
pub mod Shapes
mod Worked
