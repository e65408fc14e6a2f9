pub mod AccessLists
pub mod AccessSteps
pub mod Across
pub mod AlikeSteps
pub mod Apartness
pub mod Append
pub mod Arrivals
mod Called
pub mod Confinement
mod Deliveries
pub mod ErasedLive
mod Fitting
mod Inside
pub mod LiveLemmas
mod LiveServes
mod LiveSteps
mod Loads
pub mod LiveWrites
pub mod NextSettings
pub mod Owners
pub mod Refusals
mod Sizes
mod SizesStay
mod SlotBytes
mod SlotLemmas
mod Views
pub mod Written
pub mod Steps
pub mod Shape
pub mod Unwinding
pub mod WithoutGroup
