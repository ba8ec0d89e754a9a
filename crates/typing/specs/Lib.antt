pub mod Checked
pub mod Types
pub mod Slots
pub mod Expressions
pub mod Walk
pub mod Places
