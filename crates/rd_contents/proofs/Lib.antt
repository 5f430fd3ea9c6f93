pub mod OverLemmas
pub mod PageLemmas
pub mod CountLemmas
pub mod ContentsLemmas
