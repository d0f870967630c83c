-- Lemmas on the code of sums.
pub mod Beginning
pub mod Emission
pub mod Exit
pub mod Integers
pub mod Levels
pub mod Meaning
pub mod Names
pub mod Simulation
pub mod Stack
