-- What contracts of private functions say: no public contract of `linear` cites it, and a reader of those need not believe it.
pub mod Words
pub mod Planes
pub mod Tests
pub mod Rotations
