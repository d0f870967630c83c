pub mod Spines
pub mod Rooms
pub mod Served
