pub mod Run
pub mod Printout
pub mod Log
pub mod Promises
