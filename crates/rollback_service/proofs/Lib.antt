pub mod Boxes
pub mod Levellings
pub mod Placings
pub mod Drainings
