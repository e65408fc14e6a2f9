pub mod Laid
pub mod ReadBack
pub mod Told
