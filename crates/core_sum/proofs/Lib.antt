-- Lemmas on sums and on the modules that have one.
pub mod Levels
pub mod Values
pub mod Parts
pub mod Forms
pub mod Modules
pub mod Unique
