pub mod RateSteps
pub mod Shown
pub mod Least
pub mod Words
