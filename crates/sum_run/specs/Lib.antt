-- What contracts say of running a sum.
pub mod Run
