pub mod State
pub mod Next
pub mod Fits
pub mod Move
pub mod MoveLaws
pub mod FirstByteLaws
