pub mod Names
pub mod OneReply
pub mod Payable
pub mod ReadsTogether
