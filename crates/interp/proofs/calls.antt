pub mod Runs
pub mod Chain
pub mod Latest
pub mod Accepted
pub mod Demand3
