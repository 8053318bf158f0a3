pub mod Numbers
pub mod Contents
pub mod Calls
pub mod Judging
