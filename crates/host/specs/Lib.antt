-- How the host's words hold what the crates' definitions speak of.
pub mod Pairs
pub mod Registers
