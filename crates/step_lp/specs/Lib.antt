pub mod Program
pub mod Moves
pub mod Points
pub mod Words
