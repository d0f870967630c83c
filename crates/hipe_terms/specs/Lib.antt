-- What contracts say of terms.
pub mod Terms
pub mod Order
pub mod Shown
pub mod Range
pub mod Constants
pub mod Words
pub mod Bifs
pub mod Classes
pub mod Primops
pub mod Outcome
pub mod Laws
