-- The machine's definition, from the bytes of its code to the end of a run.
pub mod Arithmetic
pub mod Fetch
pub mod Machine
pub mod Loading
pub mod Result
pub mod Outcome
pub mod Laws
pub mod Seen
pub mod Steps
