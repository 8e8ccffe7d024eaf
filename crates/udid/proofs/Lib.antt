pub mod ByteLaws
pub mod UdidLaws
pub mod WindowLaws
pub mod WriteLaws
