-- What contracts say of the code of sums.
pub mod Code
