pub mod Devices
pub mod Printers
pub mod Declaring
pub mod Replies
pub mod Marks
