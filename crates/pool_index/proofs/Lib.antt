pub mod EntryLemmas
pub mod IndexLemmas
pub mod WordLemmas
