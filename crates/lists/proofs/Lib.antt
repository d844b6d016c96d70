pub mod Conditions
pub mod Numbers
pub mod Rows
pub mod Results
pub mod Options
pub mod Elements
