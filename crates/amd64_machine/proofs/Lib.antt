-- Lemmas on the definitions.
pub mod Fetching
pub mod Caching
pub mod Division
pub mod Written
pub mod Start
pub mod Acts
pub mod Runs
pub mod Ends
pub mod Going
pub mod Advancing
pub mod Services
pub mod Called
pub mod Lines
pub mod Results
