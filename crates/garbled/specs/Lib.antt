pub mod Places
pub mod WireBytesLaws
pub mod SetLaws
pub mod TraceSetLaws
pub mod VerdictLaws
pub mod Sizes
pub mod SizesLaws
