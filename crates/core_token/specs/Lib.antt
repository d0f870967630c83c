pub mod Lexemes
pub mod Reading
pub mod Values
pub mod Spelling
pub mod Text
pub mod Laws
