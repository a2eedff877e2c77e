-- The laws that proofs cite, here and in the crates above.
pub mod Residues
pub mod Multiples
pub mod Choices
pub mod Independence
pub mod RowOperations
pub mod Elimination
pub mod Packed
pub mod Least
pub mod Uniqueness
pub mod TieDigits
pub mod TieEntries
pub mod Carried
pub mod TieBytes
-- Laws of rows in words, for proofs of functions.
pub mod Internal
