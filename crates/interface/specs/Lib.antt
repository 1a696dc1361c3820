pub mod Answers
pub mod Lines
pub mod Performed
pub mod Spoken
pub mod Writings
