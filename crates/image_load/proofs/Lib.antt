-- Lemmas on the definitions.
pub mod Levels
pub mod Exports
pub mod Steps
pub mod Finding
