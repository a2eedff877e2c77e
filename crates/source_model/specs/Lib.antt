pub mod Pair
pub mod Draw
pub mod Disjoint
pub mod Evidence
pub mod Internal
