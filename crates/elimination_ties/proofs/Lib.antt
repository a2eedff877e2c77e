pub mod Entries
pub mod AnySize
