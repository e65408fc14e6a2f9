pub mod Turned
pub mod Watched
