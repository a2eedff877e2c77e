pub mod Block
pub mod File
pub mod Ties
pub mod Sample
pub mod TieEvidence
pub mod TiedRowsEvidence
pub mod Internal
