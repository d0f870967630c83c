pub mod Lattices
pub mod Systems
