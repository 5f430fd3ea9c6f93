pub mod OrderLemmas
pub mod DevicesLemmas
pub mod FoldersLemmas
pub mod ClosingLemmas
pub mod OpenedLemmas
pub mod RealLemmas
