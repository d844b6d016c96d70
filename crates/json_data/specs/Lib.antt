pub mod Nodes
pub mod Growth
pub mod View
pub mod Found
pub mod Plain
