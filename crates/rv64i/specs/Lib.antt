pub mod Manual
pub mod Agreement
