pub mod Layouts
pub mod Standing
