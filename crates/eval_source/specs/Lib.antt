-- What contracts say of the program.
pub mod Arguments
pub mod Commands
pub mod Texts
pub mod Answers
pub mod Outcome
