-- What contracts say of the text of values.
pub mod Named
pub mod Pieces
