pub mod Cursors
pub mod Compare
