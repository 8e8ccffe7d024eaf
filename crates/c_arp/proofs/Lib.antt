pub mod CommandLaws
pub mod PassLaws
