mod Bounded
pub mod Calls
mod Deeds
mod Hosts
mod Lives
mod Meetings
mod Notes
mod Own
mod Parts
pub mod Raised
pub mod Services
mod Standing
mod Told
mod Wirings
