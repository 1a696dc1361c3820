pub mod Counting
pub mod Outcomes
pub mod Performing
pub mod Reading
pub mod Writings
