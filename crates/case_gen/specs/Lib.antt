pub mod Cases
pub mod Conditions
pub mod Draws
pub mod Named
pub mod Rings
pub mod Trips
