pub mod Texts
pub mod Rules
pub mod Format
pub mod Parts
mod Replacing
mod CallFields
