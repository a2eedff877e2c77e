-- The laws that proofs cite, here and in the crates above.
pub mod Tables
pub mod Sums
pub mod Digits
pub mod NumberBits
pub mod Strings
pub mod Vectors
pub mod Linearity
pub mod WordBits
pub mod WordBytes
pub mod Copies
pub mod Filling
-- The laws of what only the functions of this layer do.
pub mod Internal
