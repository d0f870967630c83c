-- Lemmas on programs.
pub mod Parts
