-- Lemmas on running a sum.
pub mod Running
