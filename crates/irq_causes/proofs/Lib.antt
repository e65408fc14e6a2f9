pub mod Bounds
pub mod MessageLemmas
mod Unite
