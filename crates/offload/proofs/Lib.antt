pub mod Pieces
pub mod Pseudo
pub mod Parts
pub mod Checked
pub mod Segmented
pub mod Joined
pub mod Within
