-- What contracts say of printing and reading.
pub mod Fits
pub mod Laws
