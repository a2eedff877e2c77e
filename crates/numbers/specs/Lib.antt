pub mod Number
pub mod Lowest
pub mod Sets
pub mod Refusals
