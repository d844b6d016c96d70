pub mod Keys
pub mod Places
pub mod Faults
pub mod Results
pub mod Grammar
