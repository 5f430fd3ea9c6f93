pub mod ZipLemmas
pub mod DeskLemmas
pub mod CallsLemmas
pub mod MomentLemmas
