pub mod Tickets
pub mod Tables
pub mod States
pub mod Bounds
pub mod Answers
pub mod Waiting
pub mod Queues
pub mod Facts
