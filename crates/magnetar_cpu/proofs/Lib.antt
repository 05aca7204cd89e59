pub mod Images
pub mod Round
pub mod Filling
pub mod Dispatchers
