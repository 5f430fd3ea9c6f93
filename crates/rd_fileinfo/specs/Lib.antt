pub mod FileInfo
pub mod SetInfo
pub mod VolumeInfo
pub mod Label
