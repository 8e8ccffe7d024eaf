pub mod Udids
pub mod Bytes
