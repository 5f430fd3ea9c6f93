pub mod Table
pub mod Outcomes
pub mod History
pub mod Slots
pub mod Known
pub mod Places
pub mod Worked
