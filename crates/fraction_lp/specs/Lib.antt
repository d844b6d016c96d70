pub mod Divisors
pub mod Ratio
pub mod Dictionary
pub mod Program
pub mod Excluding
pub mod Steps
pub mod Choices
pub mod Worked
