pub mod KindLaws
pub mod StartLaws
