pub mod Step
pub mod Drive
pub mod Strides
