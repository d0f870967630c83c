-- Lemmas on the definitions.
pub mod Atoms
pub mod Sizes
pub mod Words
pub mod Standing
