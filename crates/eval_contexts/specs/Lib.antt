-- What contracts say of the contexts of expressions, and of programs.
pub mod Contexts
pub mod Matches
pub mod Programs
