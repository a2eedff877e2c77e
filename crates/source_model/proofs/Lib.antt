-- The laws that proofs cite, here and in the crates above.
pub mod Pairs
pub mod Draws
pub mod Copied
pub mod Conditions
pub mod Disjoint
pub mod Readings
pub mod BytesE4
pub mod Evidence
