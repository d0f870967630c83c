pub mod Levels
pub mod Following
pub mod Named
pub mod Pieces
pub mod Building
