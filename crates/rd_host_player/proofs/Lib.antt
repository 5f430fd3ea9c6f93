pub mod PlayLemmas
pub mod TurnLemmas
