pub mod Behind
pub mod Fixed
