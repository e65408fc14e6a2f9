pub mod Segmenting
pub mod Faulting
