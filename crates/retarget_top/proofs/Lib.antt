mod Placings
mod Aiming
mod Elsewhere
