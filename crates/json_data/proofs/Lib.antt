mod Values
mod Grown
mod Reading
mod Spots
mod Seen
mod Pieces
mod Found
mod PlainBytes
mod PlainTail
mod PlainGrammar
pub mod Lengths
