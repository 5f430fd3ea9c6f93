pub mod TurnLemmas
pub mod DirectLemmas
pub mod WornLemmas
pub mod AloneLemmas
