pub mod Decimal
pub mod Rate
pub mod Worked
pub mod inside
