mod Exchanged
mod Remapped
mod Places
mod Devices
