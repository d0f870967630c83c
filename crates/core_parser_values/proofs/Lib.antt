-- Lemmas of the parser's values.
pub mod Empty
pub mod Reversed
