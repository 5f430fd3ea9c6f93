pub mod PassedLemmas
pub mod ChainLemmas
pub mod TrailLemmas
pub mod ComingLemmas
pub mod LinesLemmas
pub mod NumberedLemmas
pub mod UntakenLemmas
pub mod AwaitedLemmas
