pub mod MarkedLaws
pub mod MarkedCasesLaws
