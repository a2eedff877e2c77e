pub mod Bases
pub mod Fronts
pub mod Parts
pub mod Refusals
