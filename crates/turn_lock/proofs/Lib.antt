pub mod Totals
pub mod Queues
pub mod Prefixes
pub mod Knows
pub mod Turning
pub mod Seating
