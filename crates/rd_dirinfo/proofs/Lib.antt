pub mod WrittenLemmas
pub mod NamingLemmas
pub mod PatternLemmas
pub mod WalkLemmas
pub mod PathLemmas
pub mod Worked
