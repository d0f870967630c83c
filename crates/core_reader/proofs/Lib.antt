-- Lemmas of the reader.
pub mod Answering
pub mod Meanings
pub mod Ranges
pub mod Running
mod Tables
pub mod Texts
pub mod Unique
