pub mod Decoding
pub mod Numbers
pub mod Size
