pub mod Flows
pub mod Overlap
pub mod Gates
pub mod Run
pub mod Theorems
