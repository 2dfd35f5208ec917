pub mod Words
mod Ways
mod Moves
mod Multiples
mod Instants
mod Nearest
pub mod ForCallers
