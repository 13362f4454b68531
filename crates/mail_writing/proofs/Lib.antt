pub mod CalendarDates
pub mod CalendarMoments
pub mod ReplyTexts
