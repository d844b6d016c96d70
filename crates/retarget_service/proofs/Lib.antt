pub mod Writings
mod Makings
mod JournalRooms
