-- What modules mean.
pub mod Scopes
pub mod Procedures
pub mod Matching
pub mod Meaning
pub mod Source
pub mod Laws
pub mod Output
