pub mod Links
pub mod InMemory
