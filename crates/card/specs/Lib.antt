pub mod Card
pub mod Told
pub mod Steps
pub mod Served
pub mod Alike
pub mod Life
pub mod Wired
