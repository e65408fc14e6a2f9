pub mod Regions
pub mod Mapping
pub mod Known
pub mod Whole
