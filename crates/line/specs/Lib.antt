pub mod Codes
pub mod Figures
pub mod Fillings
pub mod Kinds
pub mod Meaning
pub mod Times
pub mod Carried
pub mod Cells
