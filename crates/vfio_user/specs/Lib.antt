pub mod Numbers
pub mod Fields
pub mod Header
pub mod Requests
pub mod Replies
pub mod Spelled
pub mod Told
