pub mod Circle
pub mod Dispatch
pub mod Calls
pub mod Claims
pub mod Driven
