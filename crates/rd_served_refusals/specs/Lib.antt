pub mod Heeding
