mod CallLemmas
pub mod LineLemmas
mod RaiseLemmas
mod ShareLemmas
mod SizeLemmas
