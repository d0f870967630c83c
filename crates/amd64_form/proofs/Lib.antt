mod Fit
mod Table
mod Fields
mod Shapes
mod Memory
mod Rows
pub mod Laws
pub mod Sizes
