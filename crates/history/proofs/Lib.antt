pub mod StoreLemmas
pub mod ReplayLemmas
pub mod WordLemmas
pub mod HeadLemmas
pub mod BroughtLemmas
