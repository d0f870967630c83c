-- Lemmas on the definitions.
pub mod Command
pub mod Outcomes
pub mod Placing
pub mod Running
pub mod Taking
pub mod Answering
pub mod Unique
