-- Laws of rows in words, for proofs of functions.
pub mod Writing
pub mod Tables
pub mod Turns
pub mod Loading
