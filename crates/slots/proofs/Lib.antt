pub mod FindingLaws
pub mod SlotsLaws
