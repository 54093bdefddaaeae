pub mod Ranking
pub mod Turning
