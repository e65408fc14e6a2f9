mod Admissions
pub mod Kept
