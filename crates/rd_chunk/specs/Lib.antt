pub mod Sizes
pub mod Frames
pub mod Faults
pub mod Standing
pub mod Kept
pub mod Streams
pub mod Carrier
pub mod Worked
