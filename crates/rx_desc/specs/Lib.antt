pub mod Parts
pub mod Receive
pub mod Cut
pub mod Words
pub mod Accesses
