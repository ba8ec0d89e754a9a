pub mod Numbers
pub mod Listing
pub mod Writing
pub mod Reading
pub mod Answers
pub mod Plain
