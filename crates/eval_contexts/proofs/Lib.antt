pub mod Matched
pub mod Slots
pub mod Tables
pub mod BifNames
