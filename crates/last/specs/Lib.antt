pub mod Last
pub mod LastLaws
