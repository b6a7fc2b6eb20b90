pub mod Numbers
pub mod Promises
pub mod Row
pub mod Tried
