-- What the calls of modules of sums mean.
pub mod Returning
