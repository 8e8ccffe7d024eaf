pub mod Refusals
pub mod DecodingLaws
pub mod Decodings
pub mod CodecLines
