pub mod Words
pub mod Changes
pub mod PutBack
pub mod Messages
pub mod Laws
