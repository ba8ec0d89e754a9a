pub mod Integers
pub mod Complement
pub mod Stored
pub mod SlotList
pub mod HandedOut
pub mod Unique
pub mod Cases
