pub mod SideLemmas
pub mod OrderedLemmas
pub mod RequestLemmas
