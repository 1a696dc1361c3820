pub mod Lines
pub mod Stretches
pub mod Gates
pub mod Figures
