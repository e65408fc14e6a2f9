mod Addresses
mod ByPolicies
mod Erasing
mod Frames
mod Given
mod Steady
mod Vlans
mod Whatever
