-- Lemmas on the definitions.
pub mod Parts
