mod BurstSteps
mod ErasedRuns
mod FrameLemmas
mod More
mod Runs
mod WireSteps
mod WithoutGroup
mod Writes
