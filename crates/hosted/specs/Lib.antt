pub mod Hosted
pub mod Turns
