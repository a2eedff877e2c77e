-- The laws that proofs of functions cite.
pub mod Tests
pub mod Copies
pub mod Sums
pub mod Lanes
pub mod Groups
pub mod Blocks
pub mod Rows
pub mod RowNumbers
pub mod TiedRows
pub mod TieNumbers
pub mod Digits
pub mod Reading
