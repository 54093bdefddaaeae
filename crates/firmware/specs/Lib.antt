pub mod Text
pub mod Cores
pub mod Certificates
