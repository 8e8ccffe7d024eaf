pub mod RefusedLaws
pub mod Taken
pub mod TakenLaws
pub mod Stepped
pub mod SteppedLaws
