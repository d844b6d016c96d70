pub mod Opened
pub mod Firsts
pub mod LeastSlack
pub mod LinkSums
pub mod Rows
pub mod Shares
pub mod Passes
