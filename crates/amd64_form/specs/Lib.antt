pub mod Reg
pub mod Operation
pub mod Inst
pub mod Encoding
pub mod Form
pub mod Text
