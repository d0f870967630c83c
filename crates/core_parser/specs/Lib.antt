-- What contracts say of the parser.
pub mod Laws
pub mod Machine
pub mod Values
