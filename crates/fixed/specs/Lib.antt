pub mod Filled
pub mod Values
pub mod FilledLaws
