pub mod Untold
pub mod WorkedHoldings
pub mod Faults
pub mod Turns
pub mod Answering
pub mod Finishing
pub mod Worked
