pub mod Notice
pub mod Cache
pub mod Printer
pub mod Running
pub mod Printing
pub mod Worked
