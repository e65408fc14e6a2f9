pub mod Pseudo
pub mod Stored
pub mod Changed
