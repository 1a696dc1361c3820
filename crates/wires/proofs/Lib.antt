pub mod Asked
pub mod Lined
