pub mod Core
pub mod Hearing
pub mod Expected
pub mod Order
pub mod Worked
