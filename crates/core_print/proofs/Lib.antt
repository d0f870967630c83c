mod PrintTable
pub mod Printing
mod Attributes
