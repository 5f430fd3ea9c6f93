pub mod Lines
pub mod Taken
pub mod Journals
pub mod File
pub mod Worked
