pub mod Calls
pub mod State
pub mod Front
pub mod Kept
pub mod Worked
