mod BlockLemmas
mod CardLemmas
mod GuestLemmas
mod HandleLemmas
mod LentLemmas
mod RecordedLemmas
mod Silence
pub mod Values
mod WantedLemmas
