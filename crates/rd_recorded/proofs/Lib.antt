pub mod HeardLemmas
pub mod EntryLemmas
pub mod FrameLemmas
