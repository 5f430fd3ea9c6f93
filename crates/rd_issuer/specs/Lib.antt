pub mod Issues
pub mod Stints
pub mod SideBySide
