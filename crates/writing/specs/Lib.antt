pub mod Written
pub mod WrittenLaws
pub mod Pages
pub mod PageLaws
