pub mod Lists
pub mod Powers
pub mod Loops
pub mod Halting
