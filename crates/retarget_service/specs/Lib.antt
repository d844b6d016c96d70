pub mod Written
pub mod Aimed
pub mod UnleftLines
pub mod JournalRoom
