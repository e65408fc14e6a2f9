pub mod Pieces
pub mod CutLemmas
pub mod Delivered
pub mod Listed
pub mod Slots
pub mod WordsRead
