-- Laws of what is asked for and what is allowed.
pub mod Asked
pub mod Shut
pub mod Plain
pub mod Contracts
