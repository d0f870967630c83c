-- What contracts say of trees.
pub mod Trees
pub mod Nodes
pub mod SameTree
pub mod WellFormed
pub mod Names
pub mod Places
pub mod Part
pub mod Parts
pub mod Degrees
pub mod Rules
pub mod RuleNames
pub mod Good
pub mod First
pub mod GoodLaws
