pub mod Comparing
pub mod Spines
pub mod Cells
pub mod Tuples
pub mod Rooms
pub mod Frames
pub mod TermOrder
pub mod Appending
