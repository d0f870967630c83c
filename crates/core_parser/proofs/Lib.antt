pub mod Answering
mod Backs
mod Cells
mod Constants
mod Elements
mod Ends
mod Examples
mod Expressions
mod Meaning
pub mod Modules
mod Refusing
mod Sound
pub mod OneAnswer
mod Patterns
mod Steps
