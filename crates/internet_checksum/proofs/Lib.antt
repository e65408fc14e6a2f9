pub mod Adding
pub mod Stored
pub mod Written
