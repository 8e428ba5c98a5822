-- What is asked of a page, and what its leaf entry allows.
pub mod Flags
pub mod Asked
pub mod Allowed
pub mod Plain
