pub mod Sifted
pub mod Framed
pub mod Standing
pub mod Lending
pub mod Floors
