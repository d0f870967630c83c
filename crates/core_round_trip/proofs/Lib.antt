-- Lemmas of printing and reading.
mod TreeKinds
mod GoodKinds
mod Made
mod Placeless
mod Readings
mod PatternReading
mod ExpressionReading
mod Derived
mod ConstantReading
mod ModuleReading
mod Tokens
mod Numerals
mod Names
mod PieceKinds
mod TermKinds
mod ConstructKinds
mod PrintedKinds
mod GoodTokens
pub mod RoundTrip
