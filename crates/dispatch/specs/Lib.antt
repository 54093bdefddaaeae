pub mod Picks
pub mod Right
pub mod Rising
