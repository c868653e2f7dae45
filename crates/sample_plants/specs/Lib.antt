pub mod BenchA
pub mod Ring
