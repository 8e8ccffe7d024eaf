pub mod Words
pub mod Chars
pub mod WordLaws
