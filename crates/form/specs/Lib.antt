pub mod Sorts
pub mod Scan
