pub mod Arrivals
pub mod Bursts
pub mod Erased
pub mod Frames
pub mod Live
pub mod Stored
