pub mod Numbers
pub mod Outputs
pub mod Lowest
pub mod Sets
pub mod Refusals
