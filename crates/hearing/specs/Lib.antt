pub mod Heard
pub mod Told
pub mod TraceLaws
pub mod ToldLaws
pub mod LongTraceLaws
