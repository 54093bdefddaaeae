pub mod Windows
pub mod Widths
pub mod Ladders
pub mod Narrow
