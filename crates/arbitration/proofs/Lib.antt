pub mod DropOutLaws
pub mod OrderLaws
pub mod PairLaws
pub mod WinLaws
pub mod WireLaws
