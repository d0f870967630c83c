-- What holds of a program in memory.
pub mod Arguments
