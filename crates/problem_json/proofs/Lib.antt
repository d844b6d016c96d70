pub mod Steps
pub mod Spelled
pub mod Found
pub mod Routes
pub mod Growth
pub mod Text
pub mod Events
mod Ranges
mod Plain
mod Adding
mod ReadValues
mod Formats
mod ReadNetwork
mod ReadPaths
mod ReadTunnels
mod ReadPlans
mod Rows
mod Wholes
mod Words
mod ReadText
mod ReadAgain
mod Respelled
mod ReadClaims
pub mod ReadScripts
mod ReadWithin
