pub mod Keeping
pub mod KeptServices
pub mod Seats
pub mod Services
