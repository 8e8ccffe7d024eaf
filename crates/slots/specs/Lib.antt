pub mod Slots
pub mod Finding
