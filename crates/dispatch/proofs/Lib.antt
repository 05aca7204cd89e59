pub mod Search
pub mod Ways
pub mod Grants
pub mod Fair
pub mod Laws
pub mod Drives
