pub mod Readings
pub mod Shifts
pub mod Stores
pub mod Targets
pub mod Widths
pub mod Words
