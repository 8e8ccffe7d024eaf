pub mod Outcome
pub mod EntryLaws
pub mod OutcomeByLaws
pub mod OutcomeLaws
pub mod NumberLaws
pub mod LongTraceLaws
