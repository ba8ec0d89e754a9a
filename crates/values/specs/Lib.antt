pub mod Words
pub mod Texts
pub mod Slots
