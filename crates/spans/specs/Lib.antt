pub mod Divisors
pub mod Spans
pub mod Places
pub mod Formula
pub mod Overlap
