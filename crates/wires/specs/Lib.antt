pub mod Answered
pub mod Answers
pub mod Orders
pub mod Performed
pub mod Transcript
pub mod Words
