pub mod CountLemmas
pub mod MoveLemmas
pub mod BetweenLemmas
pub mod MergeLemmas
pub mod PlayLemmas
pub mod SessionLemmas
