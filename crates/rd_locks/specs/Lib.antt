pub mod Locks
pub mod Slots
pub mod Index
pub mod Worked
