pub mod MailboxFile
pub mod MailboxSource
pub mod Moment
pub mod OpenFiles
pub mod StdFile
pub mod SystemFile
pub mod Told
