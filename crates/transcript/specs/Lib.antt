pub mod Known
pub mod Limits
pub mod Lines
pub mod Text
