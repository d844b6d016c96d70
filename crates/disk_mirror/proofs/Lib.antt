mod Alone
mod Pieces
mod Telling
mod Tying
mod Within
