pub mod Asked
pub mod Printed
pub mod Console
pub mod Lent
pub mod Plain
