pub mod Heights
pub mod Totals
pub mod Choosing
pub mod Stacking
pub mod Counting
pub mod Verdicts
