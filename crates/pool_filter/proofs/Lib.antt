pub mod FlagLemmas
pub mod MapLemmas
pub mod OwnLemmas
pub mod PutLemmas
pub mod ReachLemmas
pub mod RisingLemmas
pub mod WordLemmas
pub mod WriteLemmas
