pub mod OrderLemmas
pub mod OwnLemmas
pub mod KeptLemmas
pub mod HearLemmas
pub mod WrongLemmas
