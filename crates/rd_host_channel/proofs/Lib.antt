pub mod CallLemmas
pub mod GivenLemmas
pub mod ReadingLemmas
pub mod PuttingLemmas
pub mod SendingLemmas
pub mod BackLemmas
