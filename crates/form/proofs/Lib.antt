pub mod Force
pub mod Rows
pub mod Places
pub mod Tallies
pub mod Seen
pub mod Asked
pub mod Order
