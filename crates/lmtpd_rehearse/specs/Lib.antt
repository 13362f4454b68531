pub mod Mailboxes
pub mod Client
pub mod Account
pub mod Copies
pub mod Rehearsal
