pub mod Questions
pub mod Noting
pub mod Hearing
pub mod Talks
pub mod Visits
pub mod HeldText
