-- What contracts of inner functions cite; no contract of `matrix` or `protocol` does.
pub mod Lanes
pub mod Rows
pub mod Digits
