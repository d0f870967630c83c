-- What the services do with words that stand for terms.
pub mod Laws
