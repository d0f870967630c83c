pub mod Referred
pub mod Found
pub mod Firsts
pub mod Positions
pub mod Numbered
pub mod Claims
