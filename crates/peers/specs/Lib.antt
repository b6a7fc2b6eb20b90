pub mod Entries
pub mod Messages
