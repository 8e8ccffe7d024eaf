pub mod Meanings
pub mod MeaningLaws
pub mod Worded
pub mod WordedLaws
pub mod PrintedLaws
