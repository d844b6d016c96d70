pub mod Bytes
pub mod Offers
pub mod Reading
pub mod Standing
pub mod Sessions
