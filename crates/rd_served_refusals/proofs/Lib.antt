pub mod BytesLemmas
pub mod HinderLemmas
pub mod InLineLemmas
pub mod LineLemmas
pub mod PointLemmas
