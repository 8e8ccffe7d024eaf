pub mod Picking
pub mod Claims
