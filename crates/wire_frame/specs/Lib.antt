pub mod Address
pub mod Apart
pub mod Bits
pub mod Fault
pub mod Frame
pub mod Lent
pub mod Pools
pub mod Row
