mod BifTable
mod ClassTable
mod PrimopTable
mod TermTable
pub mod AtomTexts
pub mod Levels
pub mod Parts
pub mod Ordering
pub mod TotalOrder
pub mod Texts
