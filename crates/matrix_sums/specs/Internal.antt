-- What only contracts of private functions cite.
pub mod Lanes
