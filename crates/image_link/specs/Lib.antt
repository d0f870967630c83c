pub mod Atoms
pub mod Names
pub mod Code
pub mod Image
pub mod Linking
pub mod Format
pub mod Fields
