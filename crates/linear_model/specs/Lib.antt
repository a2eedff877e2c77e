pub mod Tables
pub mod Bits
pub mod Trits
pub mod Digits
pub mod Products
-- What no public contract of `linear` cites.
pub mod Internal
