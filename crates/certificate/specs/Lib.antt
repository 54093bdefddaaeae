pub mod Allowance
pub mod Marking
pub mod Widths
pub mod Certified
pub mod Refusals
