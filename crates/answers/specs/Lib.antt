pub mod Lines
pub mod Commands
pub mod CommandsLaws
pub mod Runs
pub mod RunsLaws
