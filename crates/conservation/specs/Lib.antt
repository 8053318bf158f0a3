pub mod Steps
pub mod Ledger
pub mod Runs
pub mod Answering
pub mod Bytes
pub mod Conserved
pub mod Example
pub mod Impostors
