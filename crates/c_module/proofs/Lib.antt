pub mod SuppliedLaws
