-- Lemmas on the runs of sums.
pub mod Ranges
pub mod Runs
pub mod Modules
