pub mod Phases
pub mod PhaseLaws
pub mod Modules
pub mod ModuleLaws
