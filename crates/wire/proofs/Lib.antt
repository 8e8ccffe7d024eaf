pub mod AddressLaws
pub mod AddressTableLaws
pub mod WordsLaws
