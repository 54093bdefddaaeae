pub mod Causes
pub mod Records
pub mod Rules
pub mod Kinds
pub mod Files
pub mod Labels
pub mod Cutting
