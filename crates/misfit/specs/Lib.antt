pub mod Kinds
pub mod Cases
pub mod CasesLaws
