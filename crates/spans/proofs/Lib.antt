pub mod Alone
pub mod Circle
pub mod Cover
pub mod Euclid
pub mod Formula
pub mod Sharing
