pub mod WriterLaws
pub mod PhaseLaws
pub mod PecLaws
pub mod WholeLaws
pub mod EntryLaws
