pub mod Entries
pub mod Range
pub mod Pass
pub mod Answers
pub mod Logs
pub mod Rebuilt
pub mod Laws
