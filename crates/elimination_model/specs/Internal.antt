-- What proofs and contracts of inner functions cite; no contract of `matrix` or `protocol` does.
pub mod Elimination
pub mod Words
