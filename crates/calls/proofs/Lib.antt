pub mod Gathering
pub mod Slots
