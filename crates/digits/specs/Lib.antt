pub mod Numbers
pub mod NumberLaws
pub mod BackLaws
