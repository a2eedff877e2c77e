-- The laws of what only the functions of this layer do: no crate above cites them.
pub mod Stores
pub mod Thirds
pub mod Circulant
pub mod Overwriting
pub mod Rotations
pub mod Quarters
pub mod Planes
pub mod Gathers
pub mod Matrix
