-- What contracts say of values.
pub mod Values
pub mod Integers
pub mod Results
pub mod Shapes
pub mod Pairs
pub mod ShortTexts
