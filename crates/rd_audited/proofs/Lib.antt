pub mod YesLemmas
pub mod OwnLemmas
