-- What contracts say of the walks through a module.
pub mod Noted
pub mod Keys
pub mod Entries
pub mod Walks
pub mod Tallies
pub mod Refusals
