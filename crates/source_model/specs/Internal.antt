-- What only contracts of the functions over a source cite.
pub mod Reading
pub mod Drawing
