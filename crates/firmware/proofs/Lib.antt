pub mod Cutting
pub mod Sizes
pub mod Granting
pub mod PlanMeasures
pub mod FileCertificates
