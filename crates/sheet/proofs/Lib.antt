pub mod Arrays
pub mod Judgments
pub mod Placed
pub mod RoundTrips
pub mod Routes
pub mod Sheets
pub mod Texts
