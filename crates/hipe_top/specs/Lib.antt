-- What the program answers to its arguments and its input, and what the code of a sum is.
pub mod Answers
pub mod Outcome
pub mod Command
pub mod Texts
pub mod Finding
pub mod Doing
