-- Worked cases of the rules, the histories and the merges, computed from the definitions alone
pub mod Names
pub mod Cases
pub mod Issues
pub mod Premiums
pub mod Alterations
pub mod Lapses
pub mod Claims
pub mod Maturities
pub mod PaidUps
pub mod Balances
pub mod Soundness
pub mod Postings
pub mod Pins
pub mod Reads
pub mod Merges
