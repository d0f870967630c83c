-- What contracts say of the text of a module.
pub mod Printed
