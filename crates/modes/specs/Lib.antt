pub mod Faults
pub mod Isolation
pub mod Lines
pub mod Matches
pub mod Program
pub mod Report
pub mod Room
pub mod Threads
