pub mod Counts
pub mod Steps
pub mod Roads
pub mod Timing
pub mod Finishing
pub mod Asking
pub mod PlanFacts
