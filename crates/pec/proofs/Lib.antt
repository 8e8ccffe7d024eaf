pub mod FoldLaws
pub mod PecDivisionLaws
pub mod PecLaws
pub mod TableLaws
pub mod PecBitLaws
