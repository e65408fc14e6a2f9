pub mod Zeros
pub mod Fit
pub mod Quiet
