mod Posting
mod Spread
mod Taking
