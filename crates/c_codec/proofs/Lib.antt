pub mod CodecLaws
pub mod LastLaws
pub mod ReadLaws
