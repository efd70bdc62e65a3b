pub mod Anniversary
pub mod Calendar
pub mod DayText
