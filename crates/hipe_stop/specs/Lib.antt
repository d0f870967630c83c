-- How a program ends without doing what it was asked for.
pub mod Inputs
pub mod Stops
pub mod Reports
pub mod Refusing
