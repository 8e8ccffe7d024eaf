pub mod Pec
pub mod PecDivision
pub mod Table
pub mod Fold
