-- What stands beside the functions' proofs.
pub mod Contracts
