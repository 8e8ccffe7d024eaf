pub mod Listed
pub mod Encode
pub mod Pieces
pub mod ListedLaws
pub mod EncodeByLaws
pub mod EncodeLaws
pub mod NumberLaws
