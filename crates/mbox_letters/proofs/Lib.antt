pub mod LineCuts
pub mod Bodies
pub mod Mailboxes
