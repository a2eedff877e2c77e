-- The theorem, in the order of its argument: tape, pairing, masks, a unit after so many frames, a run after a list; Main is the whole,
-- and Calls says that lists of C calls are such runs.
pub mod Layouts
pub mod TapeParts
pub mod Pairing
pub mod MaskLaws
pub mod HeaderLaws
pub mod StepLaws
pub mod Stages
pub mod Configurations
pub mod ShareLaws
pub mod Correct
pub mod Private
pub mod Counting
pub mod Main
pub mod Calls
