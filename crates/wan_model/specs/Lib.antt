pub mod Numbered
pub mod Shaped
pub mod Sides
pub mod Fronts
pub mod Rates
