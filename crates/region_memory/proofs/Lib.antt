-- Lemmas on the definitions.
pub mod Places
pub mod Spots
pub mod Words
pub mod Writes
pub mod Zeros
