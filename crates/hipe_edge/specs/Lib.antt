-- The words of this crate's contracts.
pub mod Counts
pub mod Bytes
pub mod InMemory
pub mod Adapters
pub mod Streams
