pub mod DeviceList
pub mod Removal
pub mod DeviceReply
pub mod PrinterInfo
pub mod Worked
