pub mod Independence
pub mod Tie
pub mod AnySize
pub mod Internal
