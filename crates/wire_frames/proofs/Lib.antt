pub mod Cuts
pub mod Feeding
pub mod Numbers
pub mod OneSpelling
pub mod Spelling
