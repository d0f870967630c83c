-- What holds of terms in the words of the heap.
pub mod Standing
pub mod Prefixes
pub mod Constants
pub mod Objects
