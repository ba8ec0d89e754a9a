pub mod Meant
pub mod Given
pub mod Walks
