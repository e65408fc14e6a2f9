pub mod Registers
pub mod Rows
pub mod Table
pub mod Space
pub mod Fixed
