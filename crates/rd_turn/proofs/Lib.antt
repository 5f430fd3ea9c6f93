pub mod TotalLemmas
pub mod HistoryLemmas
pub mod ChangeLemmas
pub mod RuleLemmas
pub mod SplitLemmas
pub mod JoinLemmas
pub mod CloseLemmas
pub mod CallLemmas
