-- Document 01's inspection list: the cases marked with a star, in one table with one theorem.
pub mod Starred
