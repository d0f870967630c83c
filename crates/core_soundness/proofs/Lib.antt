pub mod Basics
pub mod Terms
pub mod BuiltIns
pub mod Matched
pub mod Lists
pub mod Scopes
pub mod Fine
pub mod Captured
pub mod Numbers
pub mod Functions
pub mod Modules
pub mod Steps
pub mod Runs
pub mod NeverStuck
mod Rows
