-- What contracts say of terms in the words of the heap.
pub mod Integers
pub mod Shapes
pub mod Parts
pub mod Terms
pub mod Standing
pub mod Building
pub mod Seen
pub mod Following
pub mod Pieces
