-- Laws that several proofs cite.
pub mod Parts
pub mod Agreement
pub mod Contracts
pub mod Promised
