pub mod Changes
pub mod Multiples
pub mod NumberBitsLaws
pub mod Register
pub mod RegisterLaws
