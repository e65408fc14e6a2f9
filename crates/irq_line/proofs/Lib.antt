mod Keeps
mod Places
pub mod SeatLemmas
mod Story
mod Word
