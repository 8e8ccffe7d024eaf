pub mod Pairs
pub mod PairLaws
