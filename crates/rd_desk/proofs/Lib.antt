pub mod StepLemmas
pub mod OwnLemmas
pub mod WaitingLemmas
pub mod RunLemmas
