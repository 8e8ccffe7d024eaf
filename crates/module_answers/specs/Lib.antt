pub mod ModuleLines
pub mod Hearings
pub mod HearingLaws
pub mod ReadyLaws
