pub mod Report
pub mod BoundSetLaws
pub mod BufferEndLaws
