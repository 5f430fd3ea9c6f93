pub mod FolderLines
pub mod ServedOpening
pub mod Closing
pub mod Refused
pub mod Devices
