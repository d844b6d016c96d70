pub mod Lists
pub mod Aliens
pub mod JournaledRounds
pub mod Commands
