pub mod GateLists
pub mod Inputs
pub mod Lines
pub mod Listings
pub mod Runs
pub mod Texts
