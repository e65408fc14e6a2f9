pub mod Spares
pub mod Refused
pub mod Devices
