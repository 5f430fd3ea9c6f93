pub mod IssueLemmas
pub mod StintLemmas
