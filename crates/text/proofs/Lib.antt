pub mod Writing
pub mod Taking
pub mod Decimals
pub mod Numbers
pub mod Keys
pub mod Pairs
pub mod Unique
pub mod Cases
