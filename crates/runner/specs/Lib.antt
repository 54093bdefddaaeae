pub mod Traces
pub mod Asks
