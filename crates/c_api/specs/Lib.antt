pub mod PoolParts
pub mod AddressCallLaws
pub mod PoolCallLaws
pub mod UdidCallLaws
pub mod RoundTripLaws
pub mod ModelCallLaws
