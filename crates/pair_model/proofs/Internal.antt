-- What serves the code: laws that join a definition with what a function does.
pub mod FieldCopies
pub mod Fields
pub mod Headers
pub mod StepNumbers
pub mod Contents
pub mod Lengths
pub mod Begins
pub mod Advances
pub mod Deals
pub mod Evaluations
pub mod Joins
pub mod Runs
pub mod Rounds
pub mod Encodings
pub mod StateSizes
