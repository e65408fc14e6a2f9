pub mod Requests
pub mod Sameness
