pub mod Addresses
pub mod AddressTable
pub mod Symbols
pub mod Words
pub mod UniqueLaws
