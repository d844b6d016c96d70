pub mod Moving
pub mod Numbered
pub mod NoFewer
pub mod Built
pub mod Answered
