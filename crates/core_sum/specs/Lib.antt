-- Sums, and which modules have one.
pub mod Form
pub mod Laws
pub mod Made
pub mod Sums
