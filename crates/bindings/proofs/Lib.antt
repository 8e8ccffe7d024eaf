pub mod BoundLaws
pub mod BufferLaws
