pub mod Entry
pub mod Naming
pub mod Paths
pub mod Patterns
pub mod Walks
