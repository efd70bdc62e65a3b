mod Entries
mod Pages
mod Totals
mod Knowing
mod Moving
mod Stepping
mod Dividing
mod Passing
mod Ending
pub mod Names
