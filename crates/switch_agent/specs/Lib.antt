pub mod Items
pub mod Serving
pub mod ReadStates
