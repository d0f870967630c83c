mod Examples
pub mod WellFormed
