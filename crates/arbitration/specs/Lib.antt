pub mod Among
pub mod Bits
pub mod Wire
pub mod DropOut
pub mod BitLaws
