pub mod Digits
pub mod Naming
pub mod Coming
pub mod Doing
pub mod Answering
pub mod Unique
