pub mod Honest
pub mod Uncounted
