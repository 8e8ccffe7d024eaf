pub mod Grids
pub mod FoundLines
