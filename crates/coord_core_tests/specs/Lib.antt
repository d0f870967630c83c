pub mod Levels
pub mod Pairs
pub mod Rings
pub mod Lists
pub mod PairLaws
pub mod RingLaws
