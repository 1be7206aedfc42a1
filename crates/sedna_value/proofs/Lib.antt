pub mod WholeRuns
pub mod Decimals
