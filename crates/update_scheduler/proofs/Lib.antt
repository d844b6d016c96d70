pub mod Rows
pub mod Marking
pub mod Ended
pub mod Settling
pub mod Placing
pub mod Flying
pub mod Batches
pub mod Turning
mod Offered
mod Rising
mod Ordered
mod Refused
mod Among
mod Going
mod Whole
mod Still
