pub mod Stored
pub mod Written
pub mod Found
