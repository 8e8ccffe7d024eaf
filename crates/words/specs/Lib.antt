pub mod Verbs
pub mod Events
pub mod Said
pub mod SaidLaws
