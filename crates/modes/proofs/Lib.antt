mod Isolated
mod Left
mod Lines
pub mod Matches
pub mod Told
