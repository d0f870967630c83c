-- What contracts say of the grammar.
pub mod Examples
pub mod Grammar
pub mod Language
pub mod Laws
pub mod Leave
pub mod Marks
pub mod Ranges
pub mod Trees
