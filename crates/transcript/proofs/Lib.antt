pub mod Counts
pub mod Each
pub mod Known
pub mod Marks
pub mod Room
pub mod Tables
