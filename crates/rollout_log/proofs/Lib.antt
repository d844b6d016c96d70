pub mod Going
pub mod Lining
