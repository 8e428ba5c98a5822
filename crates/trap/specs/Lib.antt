-- What the contract of a trap's code cites.
pub mod Causes
