-- What contracts say of runs.
pub mod Counting
pub mod Shapes
pub mod Waiting
pub mod Applied
pub mod Constructs
pub mod Tests
pub mod Configurations
pub mod Starts
pub mod Evaluations
