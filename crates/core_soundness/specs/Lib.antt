-- What holds of good modules.
pub mod Laws
