pub mod Parts
pub mod Sieves
pub mod Framing
pub mod FencedPorts
pub mod Ledgers
