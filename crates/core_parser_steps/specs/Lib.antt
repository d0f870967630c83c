-- What contracts say of the parser's moves.
pub mod Cells
pub mod Runs
pub mod Steps
