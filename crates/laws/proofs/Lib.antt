pub mod Range
pub mod Same
