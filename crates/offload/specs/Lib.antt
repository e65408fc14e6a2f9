pub mod Words
pub mod Context
pub mod Sums
pub mod Cut
pub mod Segment
pub mod Offloads
