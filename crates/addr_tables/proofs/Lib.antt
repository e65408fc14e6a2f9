pub mod MaskLemmas
pub mod WriteLemmas
