-- Lemmas on the stops.
pub mod Inputs
pub mod Reading
pub mod Lines
pub mod Pages
