-- What contracts say of the reader.
pub mod Language
pub mod Laws
pub mod Meanings
pub mod Reading
pub mod Terminals
