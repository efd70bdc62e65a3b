pub mod History
pub mod First
pub mod HistoryLaws
pub mod Disk
