pub mod Endings
pub mod Lines
pub mod Aims
pub mod Retargets
pub mod RetargetPromise
pub mod Elsewhere
pub mod Words
