mod Called
mod Replies
