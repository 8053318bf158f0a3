pub mod Laws
pub mod BenchCases
