pub mod Waits
pub mod Expressions
pub mod Contexts
pub mod Primitives
pub mod Fuel
pub mod Grows
pub mod Applications
pub mod Steps
