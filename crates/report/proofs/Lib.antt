pub mod Decimal
pub mod Refusing
pub mod Drawing
pub mod Following
pub mod Reports
