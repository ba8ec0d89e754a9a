pub mod Arms
pub mod ByKind
