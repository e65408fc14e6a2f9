pub mod Notes
pub mod Port
pub mod Irq
pub mod Calls
