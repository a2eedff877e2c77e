pub mod Theorem
pub mod Evidence
pub mod Internal
