pub mod Gathering
pub mod Planes
pub mod Samples
