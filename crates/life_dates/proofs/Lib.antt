pub mod Names
pub mod AnniversaryLemmas
pub mod CalendarLemmas
pub mod KnownDays
pub mod TextLemmas
pub mod Parts
