pub mod Names
pub mod Prefixes
pub mod PinnedReads
pub mod Growth
pub mod Balances
pub mod Replies
