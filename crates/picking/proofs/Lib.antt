pub mod ClaimLaws
pub mod PickingLaws
