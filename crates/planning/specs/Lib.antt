pub mod Lists
pub mod Setups
pub mod Overlaps
pub mod Gates
pub mod Laws
pub mod Offers
pub mod Promise
