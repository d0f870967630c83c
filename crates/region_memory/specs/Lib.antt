-- The words of this crate's contracts.
pub mod Regions
pub mod Laws
pub mod Seen
