pub mod Case
pub mod Texts
