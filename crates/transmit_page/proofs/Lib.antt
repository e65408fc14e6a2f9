pub mod Parts
pub mod Off
pub mod Sections
pub mod Lost
pub mod Reasons
pub mod Tails
pub mod Few
pub mod Found
