pub mod Op
pub mod Fits
pub mod Request
pub mod Completion
pub mod Written
pub mod Measure
pub mod Worked
