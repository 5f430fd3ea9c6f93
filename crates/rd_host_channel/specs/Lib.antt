pub mod Calls
pub mod Reading
pub mod Putting
pub mod Sending
