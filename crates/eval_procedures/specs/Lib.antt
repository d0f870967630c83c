-- What contracts say of scopes and functions.
pub mod Shown
