-- The laws of the file; those that only the code needs are in `Internal`.
pub mod Tests
pub mod Lowest
pub mod Parts
pub mod Layouts
pub mod Blocks
pub mod Rows
pub mod WrittenBlocks
pub mod RoundTrip
pub mod Examples
pub mod PackedRows
pub mod Sample
pub mod TieEvidence
pub mod TiedRowsEvidence
pub mod Internal
