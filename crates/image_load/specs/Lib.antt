-- What contracts say of loading.
pub mod Loading
pub mod Entry
pub mod Room
pub mod Seen
