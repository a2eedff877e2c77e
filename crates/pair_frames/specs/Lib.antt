pub mod Headers
pub mod Numbers
pub mod Schemes
